pub mod Calls
pub mod Refusals
pub mod Rows
pub mod Stop
