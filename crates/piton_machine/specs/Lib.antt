-- What the crate promises is said by `piton_semantics`. How clauses see the stack and the frames.
pub mod Stacked
