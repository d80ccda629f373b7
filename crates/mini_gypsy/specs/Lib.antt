-- What programs of the infix language mean, the source that a program becomes, and that it means the same.
pub mod Meant
pub mod Lowered
pub mod Promises
pub mod Stored
pub mod Examples
-- The lowering with positions in place of names.
pub mod Steps
