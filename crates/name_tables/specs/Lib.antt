-- What the crate promises.
pub mod Entries
pub mod Lists
