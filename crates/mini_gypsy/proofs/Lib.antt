pub mod NameLaws
pub mod ResolveLaws
pub mod RuleLaws
pub mod FormLaws
pub mod StateLaws
pub mod RowLaws
pub mod HeldLaws
pub mod ValueLaws
pub mod StatementLaws
pub mod MeaningLaws
pub mod TextLaws
pub mod ExampleLaws
mod ListLaws
mod PartLaws
pub mod LowerLaws
pub mod BareLaws
pub mod PlaceLaws
pub mod BareRuleLaws
pub mod StoredLaws
