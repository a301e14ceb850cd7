pub mod PassLemmas
pub mod StepLemmas
pub mod ReadyLemmas
pub mod TopLemmas
pub mod LawLemmas
