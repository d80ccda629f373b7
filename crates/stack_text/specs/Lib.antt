-- What the crate promises: texts, trees, names, numerals, values and lines.
pub mod Tokens
pub mod Trees
pub mod TextFaults
pub mod TreeIn
pub mod TreeText
pub mod Lengths
pub mod PlaceOrder
pub mod Names
pub mod TreeNames
pub mod Numerals
pub mod Values
pub mod Lines
-- What is shared: limits, what a call gives, steps that may fail, and the least breach of rules.
pub mod SharedLimits
pub mod Gives
pub mod Results
pub mod Options
pub mod Breaches
pub mod Lists
-- Grammars, which the crates above read and print their texts by.
pub mod Grammar
-- In folders: how clauses see the code, what is internal.
pub mod Views
pub mod Internal
