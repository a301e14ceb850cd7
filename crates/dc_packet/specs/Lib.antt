pub mod Data
pub mod Filling
pub mod Part
pub mod Question
pub mod Reading
pub mod Rows
