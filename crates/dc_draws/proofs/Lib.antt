pub mod ShuffleLemmas
pub mod NextLemmas
