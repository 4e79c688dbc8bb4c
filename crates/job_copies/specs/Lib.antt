pub mod Guarding
pub mod Settling
pub mod Passing
pub mod Taking
