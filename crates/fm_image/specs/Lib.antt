-- what is promised
pub mod Procedure
pub mod Image
pub mod Limits
pub mod Bare
pub mod Spelling
pub mod Rules
pub mod Fields
pub mod Reading
