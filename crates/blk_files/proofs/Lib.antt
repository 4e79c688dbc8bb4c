pub mod Zeros
mod Returns
