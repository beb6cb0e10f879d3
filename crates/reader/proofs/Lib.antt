pub mod Splits
pub mod Readings
pub mod LineNumbers
pub mod Laws
