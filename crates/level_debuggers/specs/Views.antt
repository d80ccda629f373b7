-- How clauses see a session and its run, as the code keeps them.
pub mod Belonging
pub mod Sessions
