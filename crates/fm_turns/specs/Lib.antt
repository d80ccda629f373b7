-- what the calls give
pub mod Turns
pub mod Starting
pub mod OwnMachines
-- what is promised
pub mod Alone
pub mod Readings
pub mod EqualTurns
-- a window in a wider one
pub mod Windows
