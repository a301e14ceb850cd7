pub mod Taking
pub mod RowLemmas
pub mod Looking
pub mod Choosing
pub mod KindLemmas
