pub mod Rows
pub mod Entries
pub mod Starts
pub mod Ends
pub mod Results
pub mod Finished
pub mod Replied
pub mod Once
