-- what the traits promise
pub mod Files
pub mod Causes
pub mod Shelf
pub mod Lines
-- what the six implementations are
pub mod InMemory
pub mod System
-- what is read from streams and written to them
pub mod Streams
