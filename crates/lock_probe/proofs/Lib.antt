pub mod Replays
pub mod Running
