pub mod Places
pub mod Changed
pub mod Stepped
