pub mod Moves
pub mod Seal
pub mod Added
pub mod Found
pub mod Shown
