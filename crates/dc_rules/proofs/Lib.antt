pub mod Nearest
pub mod Permissions
pub mod Filling
pub mod Placing
pub mod Leading
