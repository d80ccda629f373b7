-- what a command replies, and what is left to do once its file is stored
pub mod Replies
pub mod Plans
-- In a folder: the commands.
pub mod Commands
