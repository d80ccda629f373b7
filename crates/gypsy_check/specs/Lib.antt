pub mod Declarations
pub mod Types
pub mod Arguments
pub mod Rules
pub mod Tables
pub mod Accepted
pub mod GypsyChecking
