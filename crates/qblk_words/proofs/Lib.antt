mod Plain
mod Top
mod Level
mod IoForm
mod RunForm
mod Flags
mod Taking
pub mod PlayerWords
