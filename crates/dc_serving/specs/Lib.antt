pub mod Runs
pub mod Seeded
pub mod Serving
pub mod Setup
