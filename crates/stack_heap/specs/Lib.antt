-- What the crate promises.
pub mod Heaps
pub mod Held
