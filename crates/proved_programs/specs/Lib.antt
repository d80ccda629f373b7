-- What the examples do.
pub mod Seven
pub mod Sum
pub mod SumText
pub mod Inc
pub mod Down
pub mod NimGame
pub mod Nim
pub mod Piles
pub mod Sort
pub mod Clock
pub mod Gcd
-- In a folder: their texts.
pub mod Texts
