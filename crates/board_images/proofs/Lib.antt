pub mod LoadedLaws
pub mod BoardLaws
