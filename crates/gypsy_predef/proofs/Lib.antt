pub mod StackLaws
mod RunningLaws
mod ValueLaws
mod NumberLaws
mod ProductLaws
mod FollowLaws
mod MultiplyLaws
mod RowLaws
mod CallLaws
mod ArgumentLaws
pub mod FormLaws
mod ResolvingLaws
