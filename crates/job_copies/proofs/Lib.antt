pub mod Left
pub mod Settled
pub mod Taken
pub mod Passed
