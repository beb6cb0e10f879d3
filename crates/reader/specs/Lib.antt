pub mod Split
pub mod Laws
pub mod Reading
pub mod Numbers
pub mod Steps
