pub mod FirstRun
pub mod Longest
pub mod LaneLemmas
pub mod ReadBack
pub mod SingleRuns
pub mod SixteenLanes
