pub mod Rooted
pub mod Written
pub mod Recording
pub mod Ready
