pub mod LengthLaws
pub mod EntryLaws
