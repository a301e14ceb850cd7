mod LineLemmas
mod InputLemmas
mod GoingLemmas
mod FlushLemmas
mod SettleLemmas
mod RunLemmas
mod SiftLemmas
