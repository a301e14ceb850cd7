pub mod Runs
pub mod Promises
pub mod Worlds
pub mod Fine
pub mod Late
