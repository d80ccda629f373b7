-- Internal: what only private functions and lemmas say.
pub mod Planned
pub mod Tasks
pub mod Told
pub mod Transcript
pub mod Talking
