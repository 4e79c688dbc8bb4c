pub mod Writable
mod Used
