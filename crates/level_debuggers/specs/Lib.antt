-- What the crate promises: what watches keep, runs at each level, what they show and say of their source, and scripts.
pub mod Tallies
pub mod Steps
pub mod Texts
pub mod FmLevels
pub mod PitonLevels
pub mod PitonReadings
pub mod GypsyLevels
pub mod Levels
pub mod Walks
pub mod Arrivals
pub mod Taken
pub mod Transcripts
pub mod ScriptSteps
pub mod WholeLines
pub mod RunWalks
-- In folders: how clauses see the code.
pub mod Views
-- Internal: what only private functions and lemmas say.
pub mod Standings
