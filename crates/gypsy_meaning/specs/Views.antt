-- How clauses see the step machine as the code keeps it, and what belongs together.
pub mod Work
pub mod Named
pub mod Running
pub mod Held
pub mod Belongs
pub mod Stacks
