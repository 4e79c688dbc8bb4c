pub mod Stops
pub mod TraceLists
pub mod Rooms
