pub mod Kept
pub mod Free
pub mod Loading
pub mod Text
pub mod Allocating
