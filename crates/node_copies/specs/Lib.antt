pub mod Sectors
pub mod Putting
pub mod Between
