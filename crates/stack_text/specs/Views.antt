-- How clauses see a `Name` and a `Tree`.
pub mod NameView
pub mod TreeView
