pub mod Granules
pub mod Words
