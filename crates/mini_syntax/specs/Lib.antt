-- Programs of the infix language.
pub mod InfixLimits
pub mod Names
pub mod Language
pub mod Operands
pub mod Sorted
pub mod Lawful
pub mod Spelled
-- The text of the language: tokens, grammar, and what is wrong with a text or a program.
pub mod Tokens
pub mod Precedence
pub mod Grammar
pub mod Faults
pub mod Breaches
pub mod Expected
pub mod MiniReading
pub mod Examples
-- In folders: what is internal.
pub mod Internal
-- How clauses see the code's programs.
pub mod ProgramView
