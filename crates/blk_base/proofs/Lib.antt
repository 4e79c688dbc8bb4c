pub mod Contents
pub mod Readings
pub mod Openings
pub mod Calls
pub mod WriteLists
pub mod DeviceLemmas
