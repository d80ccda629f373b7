pub mod NameLaws
pub mod MakingLaws
pub mod FormLaws
pub mod RuleLaws
