pub mod Follows
pub mod Bays
pub mod Outward
pub mod Taped
pub mod Rounds
pub mod Serving
pub mod Dues
pub mod Acting
