mod OpenLaws
mod WorkLaws
mod TurnLaws
mod RunningLaws
mod ApplyLaws
mod CopyLaws
mod ReturningLaws
mod CallingLaws
mod ValueLaws
mod FinishingLaws
pub mod ReadyLaws
mod StepLaws
mod NamedLaws
mod ShownLaws
mod StackLaws
mod WaitingLaws
mod StartLaws
mod FittingLaws
