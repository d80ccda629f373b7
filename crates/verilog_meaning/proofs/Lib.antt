pub mod ItemLaws
pub mod TextLaws
pub mod WidthLaws
pub mod ValueLaws
pub mod EdgeLaws
pub mod CycleLaws
pub mod RunLaws
pub mod SnapshotLaws
