-- What the crate promises: sources as contracts see them, the grammar of their text, its faults, and the printed text.
pub mod Sources
pub mod Keywords
pub mod Made
pub mod Grammar
pub mod Places
pub mod Printed
pub mod GypsyReading
pub mod Sizes
pub mod Fits
-- What all crates above share: the program that a source is, when it fits, and what predefined procedures take and do.
pub mod Programs
pub mod Resolved
pub mod Ranges
pub mod ValuesFit
pub mod ProgramFits
pub mod Effects
pub mod Predefined
-- In folders: how clauses see the code.
pub mod Views
