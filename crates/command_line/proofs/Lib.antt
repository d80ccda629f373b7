pub mod FileLaws
pub mod GatherLaws
pub mod PrintLaws
pub mod TaskLaws
pub mod TaskWordLaws
pub mod TextsLaws
