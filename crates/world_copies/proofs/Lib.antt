pub mod Stopped
pub mod JobFaults
pub mod Steps
pub mod Wholes
pub mod JobSteps
