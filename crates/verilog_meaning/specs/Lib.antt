pub mod Syntax
pub mod Meaning
pub mod ProcessorModule
pub mod Laws
