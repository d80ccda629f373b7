-- Grammars over trees: what a tree is judged to be, parts that many grammars have, and how parts are printed.
pub mod Judged
pub mod Reading
pub mod Parts
pub mod Printed
pub mod TextReaders
