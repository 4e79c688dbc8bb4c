pub mod RowLemmas
pub mod SetLemmas
pub mod Views
