pub mod DataLemmas
pub mod NameLemmas
pub mod WordLemmas
