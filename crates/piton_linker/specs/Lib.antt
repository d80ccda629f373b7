-- What the crate promises: what linking returns, and the theorem.
pub mod Layouts
pub mod Theorem
-- Internal: what only private functions say.
pub mod Tables
pub mod Drafts
