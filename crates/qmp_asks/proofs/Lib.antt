pub mod OrderLemmas
pub mod AskLists
