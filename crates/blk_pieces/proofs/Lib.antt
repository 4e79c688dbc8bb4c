pub mod Payloads
pub mod Shown
pub mod Told
pub mod Rows
pub mod Kept
