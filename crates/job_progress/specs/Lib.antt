pub mod Belonging
pub mod Going
pub mod Leaving
pub mod Piecing
pub mod Beginning
