pub mod Calls
pub mod Disk
pub mod Rows
pub mod Laws
pub mod Sunk
pub mod Shelf
