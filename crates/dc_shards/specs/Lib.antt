pub mod Cores
pub mod Serving
