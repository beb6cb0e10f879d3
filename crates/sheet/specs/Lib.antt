pub mod Audits
pub mod Figures
pub mod Heads
pub mod Line
pub mod Rows
pub mod Sheet
pub mod Told
pub mod Words
