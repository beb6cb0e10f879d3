pub mod Desk
pub mod Files
pub mod Finds
pub mod Lines
pub mod Passes
pub mod Runs
