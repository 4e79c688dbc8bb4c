pub mod Seen
pub mod Untold
