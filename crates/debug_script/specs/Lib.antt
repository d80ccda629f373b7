pub mod Rules
pub mod Commands
pub mod Lines
pub mod Scripts
