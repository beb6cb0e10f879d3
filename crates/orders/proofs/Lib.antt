pub mod Desks
pub mod Files
pub mod Finds
pub mod Passes
pub mod Sites
