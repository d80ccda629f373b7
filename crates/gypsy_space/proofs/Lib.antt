mod FirstLaws
mod CappedLaws
pub mod EventLaws
pub mod NodeLaws
pub mod PositionLaws
mod CalleeLaws
mod ResolveLaws
pub mod SmallLaws
mod AcceptedLaws
pub mod SpendLaws
