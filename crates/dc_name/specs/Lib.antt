pub mod Refusal
pub mod Wire
