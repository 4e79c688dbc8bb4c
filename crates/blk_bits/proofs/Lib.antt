pub mod GranuleLemmas
pub mod WordLemmas
pub mod LevelLemmas
pub mod WriteLemmas
pub mod FindLemmas
pub mod TowerLemmas
pub mod CountLemmas
pub mod MergeLemmas
