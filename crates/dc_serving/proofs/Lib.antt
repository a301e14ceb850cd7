pub mod BegunLemmas
pub mod Complete
pub mod FareLemmas
pub mod MachineRuns
pub mod SeedLemmas
pub mod ServingLemmas
pub mod TrustedRuns
