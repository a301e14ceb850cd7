mod StubLemmas
mod WordLemmas
mod LookLemmas
mod FaringLemmas
pub mod PassLemmas
pub mod Nameservers
pub mod Blanks
pub mod ServerLemmas
pub mod BegunLemmas
