pub mod Held
pub mod Places
pub mod Roll
pub mod View
