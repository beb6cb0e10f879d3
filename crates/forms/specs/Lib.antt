pub mod Faults
pub mod Forms
pub mod Nets
pub mod Orders
pub mod Values
