pub mod View
pub mod Endings
pub mod Due
