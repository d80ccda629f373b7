-- What the crate promises: that a debugger shows the activations that wait as they go on.
pub mod StackLaws
-- In folders: how clauses see the code, what is internal.
pub mod Views
pub mod Internal
