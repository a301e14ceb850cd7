pub mod Naming
pub mod Steps
pub mod Order
pub mod Zoned
pub mod Asking
