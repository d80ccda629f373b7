-- What the crate promises: statements run to their ends by the table of the language, keep what they don't write, and take so many
-- instructions.
pub mod Runs
pub mod Table
pub mod Written
pub mod CountedTable
-- How statements about programs are said, how with counts, and how it is said that one never ends.
pub mod Ends
pub mod Counts
pub mod Endless
