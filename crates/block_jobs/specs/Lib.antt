pub mod Ahead
pub mod Work
