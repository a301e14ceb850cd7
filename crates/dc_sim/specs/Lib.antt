pub mod Asking
pub mod Coming
pub mod Kept
pub mod Passing
pub mod Replies
pub mod Requests
pub mod Servers
pub mod Steps
