-- How clauses see a source, and the cost of a predefined procedure.
pub mod CostView
pub mod SourceView
