-- Texts of examples, with their sources and their programs.
pub mod Seven
pub mod Sum
pub mod Inc
pub mod Down
pub mod Nim
pub mod Sort
pub mod Clock
pub mod Piles
pub mod Gcd
