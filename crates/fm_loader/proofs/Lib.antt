pub mod TreeLaws
pub mod NameLaws
pub mod FoundLaws
pub mod FitLaws
pub mod ValuesLaws
pub mod ImageLaws
pub mod StoreLaws
