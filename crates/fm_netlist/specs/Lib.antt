-- What the crate promises.
pub mod NetlistText
-- Internal: what only private functions and lemmas say.
pub mod Pieces
