pub mod BayLemmas
pub mod HandLemmas
pub mod RoundLemmas
pub mod FollowLemmas
pub mod ServeLemmas
pub mod AloneLemmas
