-- A page for each command that reads no source, and what those that read a Piton text share.
pub mod PitonText
pub mod Pcheck
pub mod Prun
pub mod Run
pub mod Show
pub mod Migrate
pub mod Asm
pub mod Unasm
pub mod Mini
