-- What the crate promises. Piton's own run: states, the rows of the instructions, steps and runs with their costs, and
-- what states keep.
pub mod PitonInstr
pub mod State
pub mod Views
pub mod InstructionRows
pub mod Step
pub mod Fits
-- Piton on the processor: numbers of words, code, the placed system, and when a machine stands for a state.
pub mod Addresses
pub mod Templates
pub mod Placed
pub mod Stands
pub mod Groups
-- The laws.
pub mod Law
pub mod PlacedLaws
-- Internal: what only private functions and lemmas say.
pub mod Arguments
-- How clauses see a state with its counts, a stack of words, and frames.
pub mod StateView
