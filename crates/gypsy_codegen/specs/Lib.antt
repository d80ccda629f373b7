-- The generated system by places: the words of its code and of its stack.
pub mod WordsOf
pub mod Guard
pub mod Generated
pub mod Memory
-- The same system as a text: names, labels, lines.
pub mod Written
pub mod Lines
pub mod Text
-- What the crate promises: what each step and each run of the system does, and its sizes.
pub mod Showing
pub mod GuardLaw
pub mod Law
pub mod StepRows
pub mod Whole
pub mod Moments
pub mod Traces
pub mod Marks
pub mod Sizes
pub mod Acceptable
-- Closed programs.
pub mod Examples
pub mod TextExamples
pub mod MarkExamples
-- What it returns.
pub mod Generation
-- In folders: what is internal.
pub mod Internal
