pub mod StackLaws
pub mod StandLaws
pub mod ReachLaws
pub mod StoreLaws
pub mod ProductNumbers
pub mod ProductLaws
pub mod PieceLaws
