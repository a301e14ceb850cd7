pub mod Recorded
pub mod HeadOf
pub mod HeadLines
pub mod Plain
