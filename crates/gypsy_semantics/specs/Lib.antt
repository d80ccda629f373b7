-- What the crate promises: the meaning of programs, what it costs, the step machine, and that they agree.
pub mod Calls
pub mod Meaning
pub mod Counted
pub mod Machine
pub mod Agree
pub mod Kept
pub mod Room
-- In a folder: how clauses see a run.
pub mod Views
