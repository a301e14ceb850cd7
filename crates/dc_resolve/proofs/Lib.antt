pub mod ShortLemmas
pub mod RowLemmas
pub mod TurnLemmas
pub mod NextLemmas
pub mod EventLemmas
pub mod TestLemmas
