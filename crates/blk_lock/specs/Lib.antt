pub mod Rooms
pub mod Stamps
pub mod Stages
pub mod Views
pub mod Order
pub mod Plays
