pub mod Ahead
pub mod PartLemmas
pub mod Steps
pub mod WorkLemmas
