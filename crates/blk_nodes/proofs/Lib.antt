pub mod HeldDevices
pub mod Rows
pub mod Joints
pub mod Chains
pub mod Leading
pub mod Disks
mod Additions
pub mod KeptDisks
pub mod Unfolding
pub mod Through
pub mod Commits
mod Drawn
mod OverlayAdded
mod Filtered
pub mod Dropped
mod RawParts
mod Written
mod ImageCalls
mod ImageDisks
pub mod Changed
pub mod Alike
mod PartsWritten
mod PartFits
mod RestBeside
mod ToldDisks
mod Imaged
mod Pieces
pub mod Covered
pub mod CoveredDisks
pub mod Copied
mod CopiedDisks
mod MappedDown
mod Formatted
mod Jobs
pub mod Rewired
mod Renamed
