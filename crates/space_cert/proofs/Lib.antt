mod AllLaws
mod CoversLaws
mod OmitLaws
mod StepLaws
mod MeaningLaws
pub mod NeverLaws
pub mod LargerLaws
mod ContainsLaws
pub mod LeastLaws
mod SearchLaws
mod MarkLaws
mod SearchingLaws
mod SearchCode
mod FollowLaws
mod CertifyLaws
mod NameLaws
pub mod AcceptLaws
mod BoundedLaws
mod TextLaws
mod ReadAgainLaws
mod PrintedLaws
mod ReachLaws
pub mod CertifiedLaws
pub mod CertAgainLaws
