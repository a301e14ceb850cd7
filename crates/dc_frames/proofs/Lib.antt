pub mod Onto
pub mod PlaceLemmas
pub mod Slots
