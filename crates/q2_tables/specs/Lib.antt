pub mod Kept
pub mod Entries
pub mod Words
pub mod Loading
pub mod Linking
