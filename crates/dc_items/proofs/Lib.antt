pub mod PlainLemmas
pub mod LeftLemmas
pub mod AddressLemmas
