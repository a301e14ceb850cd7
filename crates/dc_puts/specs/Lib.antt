pub mod Order
pub mod Told
pub mod Kept
pub mod Held
pub mod Group
pub mod Sorted
