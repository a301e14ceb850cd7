pub mod Accepted
pub mod Said
pub mod Taken
pub mod Quiet
