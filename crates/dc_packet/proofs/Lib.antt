pub mod MessageLemmas
pub mod QueryLemmas
pub mod RowLemmas
pub mod WalkLemmas
