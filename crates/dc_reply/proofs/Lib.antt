pub mod AnswerLemmas
pub mod BytesLemmas
pub mod DraftLemmas
pub mod EntryLemmas
pub mod FinishLemmas
pub mod GrowLemmas
