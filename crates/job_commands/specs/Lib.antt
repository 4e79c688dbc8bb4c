pub mod Begun
pub mod Bitmaps
pub mod Granules
pub mod Whole
pub mod Copies
