pub mod InstructionWords
pub mod Templates
pub mod Execution
pub mod Areas
pub mod Flags
pub mod CodeRows
