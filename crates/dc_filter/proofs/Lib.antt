pub mod PlaceLemmas
mod QueueLemmas
mod HearLemmas
mod EngineLemmas
pub mod Serving
