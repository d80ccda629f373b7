-- Internal: what only private functions and lemmas say.
pub mod Spellings
pub mod TokenSpans
pub mod OpenLists
