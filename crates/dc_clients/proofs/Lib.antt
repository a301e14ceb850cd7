pub mod Few
pub mod TookLemmas
pub mod ClockLemmas
pub mod StepLemmas
pub mod SettleLemmas
pub mod StreamSteps
pub mod RequestLemmas
