pub mod Places
pub mod Logs
pub mod Shelves
pub mod Sure
