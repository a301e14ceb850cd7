pub mod Complete
pub mod FareLemmas
pub mod Promised
pub mod Trusted
