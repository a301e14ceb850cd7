pub mod Making
pub mod Aliases
pub mod Found
pub mod HeardLemmas
pub mod ItemsLemmas
