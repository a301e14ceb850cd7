pub mod FareLemmas
