pub mod CarryCalm
pub mod CarryImages
pub mod CarryWords
pub mod CarryNames
pub mod CarrySaid
pub mod CarryState
pub mod CarryComes
pub mod CarryLines
