pub mod Starts
pub mod Disks
pub mod Finished
