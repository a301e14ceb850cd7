pub mod Turns
pub mod Find
pub mod Lists
pub mod Packed
