pub mod Closing
pub mod Creations
pub mod Deletions
