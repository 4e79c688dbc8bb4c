mod Free
mod Untold
mod Ready
mod Calls
