pub mod Runs
pub mod Puts
pub mod Chained
pub mod Below
pub mod Owned
pub mod Copies
