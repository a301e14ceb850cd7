pub mod Complete
pub mod JobLemmas
pub mod RunLemmas
