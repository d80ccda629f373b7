pub mod LosslessLaws
pub mod LineLaws
