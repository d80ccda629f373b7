pub mod CountLaws
pub mod LongerLaws
pub mod Runs
pub mod EffectLaws
pub mod Keeping
pub mod LendingLaws
pub mod Rooms
mod CondLaws
pub mod ApartLaws
pub mod SeenLaws
mod MomentLaws
pub mod ReachLaws
pub mod RunLaws
mod NeedLaws
