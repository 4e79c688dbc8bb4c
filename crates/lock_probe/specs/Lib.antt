pub mod Face
pub mod Replay
pub mod Runs
