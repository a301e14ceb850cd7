pub mod Written
pub mod Fated
