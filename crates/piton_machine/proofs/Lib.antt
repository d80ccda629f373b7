pub mod ReverseLaws
pub mod FrameLaws
pub mod AreaLaws
