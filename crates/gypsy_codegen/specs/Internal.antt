-- Internal: what only private functions and lemmas say.
pub mod Views
pub mod Listing
