pub mod Input
pub mod Flushing
pub mod Going
pub mod Sifted
