pub mod Complete
pub mod First
pub mod Keeping
pub mod Left
pub mod Saving
