pub mod Saying
pub mod Leading
pub mod Addresses
pub mod Hosts
pub mod Telling
pub mod Taking
pub mod Hearing
