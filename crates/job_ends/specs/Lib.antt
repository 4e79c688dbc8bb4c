pub mod Rows
pub mod Ended
pub mod Targets
pub mod Images
pub mod Idle
