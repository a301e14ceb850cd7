pub mod DotLemmas
pub mod TextLemmas
pub mod PartLemmas
