-- Internal: what only private functions and lemmas say.
pub mod Showing
pub mod Listing
