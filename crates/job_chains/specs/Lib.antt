pub mod Sizes
pub mod Headers
pub mod Lent
pub mod Aside
