pub mod Faults
pub mod Played
pub mod Simulated
pub mod Refused
