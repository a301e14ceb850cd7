pub mod Going
pub mod Told
pub mod Words
