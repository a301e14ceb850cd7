pub mod Writing
pub mod Faring
pub mod Texts
