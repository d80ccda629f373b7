-- A page for each command that reads a source or builds an image, and what those that read a source share.
pub mod SourceText
pub mod Check
pub mod Mean
pub mod Pit
pub mod Build
pub mod Pbuild
pub mod Go
pub mod Need
pub mod Cert
pub mod Debug
pub mod Talk
pub mod Pdebug
pub mod Idebug
pub mod Turns
pub mod Big
pub mod Quick
