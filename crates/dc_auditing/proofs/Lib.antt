pub mod SpreadLemmas
pub mod FindingLemmas
pub mod AskingLemmas
pub mod ReportLemmas
