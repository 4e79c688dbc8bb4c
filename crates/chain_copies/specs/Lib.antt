pub mod Commits
pub mod Streams
