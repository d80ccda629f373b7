pub mod Digits
pub mod Disassembly
pub mod Listing
pub mod ImageListing
