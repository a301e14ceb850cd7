pub mod RecordLemmas
pub mod Saying
pub mod HeadPieces
pub mod PlainLemmas
