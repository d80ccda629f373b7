-- Internal: what only private functions and lemmas say.
pub mod Omits
pub mod Search
pub mod SearchState
pub mod SearchView
