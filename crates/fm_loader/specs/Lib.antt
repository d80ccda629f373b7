-- what is promised
pub mod Parsed
pub mod Rules
pub mod Values
pub mod Loaded
