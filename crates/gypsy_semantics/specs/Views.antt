-- How clauses see a run of the step machine: what belongs together, what a run shows, its steps, and the agreement.
pub mod RunView
pub mod Moments
pub mod Shown
pub mod RunAgrees
pub mod Fitting
