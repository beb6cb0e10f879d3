pub mod Answers
pub mod Labels
pub mod Routes
pub mod Rule
