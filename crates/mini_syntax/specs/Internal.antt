-- Internal: what the reader judges and reads, as only private functions and lemmas say it.
pub mod TokenSpans
pub mod Limits
pub mod Judging
pub mod Lexemes
pub mod Scopes
pub mod Combined
pub mod Phrases
pub mod Declaring
