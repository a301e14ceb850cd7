pub mod CountLemmas
pub mod EarliestLemmas
pub mod EntryLemmas
pub mod ListLemmas
pub mod PickLemmas
pub mod SoonestLemmas
pub mod TakeLemmas
