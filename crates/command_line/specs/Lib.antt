-- commands, their words and their files
pub mod CommandWords
pub mod CommandRows
pub mod Roles
pub mod CommandFiles
pub mod Gathered
-- how the program ends
pub mod Status
pub mod Ends
-- what the functions over devices say
pub mod Devices
