-- What the crate promises: what programs need of both stacks and of code, and what their steps cost.
pub mod Costs
pub mod Needs
pub mod Events
pub mod Callees
-- How clauses see resolved programs.
pub mod Nodes
-- Internal: what only private functions and lemmas say.
pub mod StatementNeeds
pub mod CallSites
pub mod Resolvable
