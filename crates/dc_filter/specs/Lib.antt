pub mod Sifter
pub mod Lines
pub mod Places
pub mod View
pub mod Queue
pub mod Kept
pub mod Serving
