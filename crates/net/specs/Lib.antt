pub mod Calls
pub mod Labels
pub mod Laws
pub mod Ledger
pub mod Matching
pub mod Performed
pub mod Questions
pub mod Tables
