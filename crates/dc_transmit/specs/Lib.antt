pub mod Attempts
pub mod Course
pub mod Gathered
pub mod Rounds
pub mod Standing
pub mod View
