-- what is promised
pub mod Formals
pub mod ComesTo
pub mod Implements
pub mod Moments
pub mod StaysUnfinished
pub mod SourceMoments
pub mod Meant
pub mod ReadMoments
pub mod StandsForPiton
pub mod Traces
pub mod Image
pub mod PlacedWords
pub mod Build
pub mod Joined
pub mod Inside
pub mod Starts
pub mod SourceRuns
-- In folders: what is internal.
pub mod Internal
