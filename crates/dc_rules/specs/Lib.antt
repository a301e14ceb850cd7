pub mod Refusals
pub mod Table
pub mod Held
pub mod Allowed
pub mod Lines
pub mod Settings
pub mod Leading
