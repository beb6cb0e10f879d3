pub mod LinkLines
pub mod Numbers
pub mod Stops
