pub mod Works
pub mod Steps
