pub mod Parts
pub mod Large
