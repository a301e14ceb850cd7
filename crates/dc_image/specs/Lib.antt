pub mod Image
pub mod Gathered
pub mod Fronts
pub mod Loaded
