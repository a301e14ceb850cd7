pub mod Command
pub mod Alone
pub mod Simulating
pub mod Replay
