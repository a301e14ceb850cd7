pub mod Left
pub mod Labels
pub mod Read
