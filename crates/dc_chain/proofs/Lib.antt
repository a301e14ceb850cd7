pub mod LinkLemmas
pub mod Places
pub mod Held
pub mod Front
pub mod Written
pub mod Tail
pub mod Buckets
