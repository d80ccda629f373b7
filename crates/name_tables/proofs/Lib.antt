mod EntryLaws
pub mod ListLaws
