-- What the crate promises: the rules, the resolved form, and what is known of a checked system.
pub mod Declarations
pub mod Meaning
pub mod Resolved
pub mod Violations
pub mod WordOperations
pub mod Instruction
pub mod Sound
pub mod PitonChecking
pub mod Places
pub mod NamedWords
-- Internal: what only private functions and lemmas say.
pub mod Tables
