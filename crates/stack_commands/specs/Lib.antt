-- what `prepare` and `finish` promise
pub mod Prepared
pub mod Works
pub mod Conversed
-- In folders: the commands, what is internal.
pub mod Commands
pub mod Internal
pub mod TalkScripts
