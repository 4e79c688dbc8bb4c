pub mod Bounds
pub mod Chains
pub mod Kinds
pub mod Held
pub mod Ended
pub mod Seen
pub mod Copies
