pub mod AddressLemmas
pub mod NumberLemmas
pub mod TextLemmas
pub mod WireLemmas
