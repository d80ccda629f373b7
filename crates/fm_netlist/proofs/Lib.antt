pub mod BelowLaws
pub mod PieceLaws
