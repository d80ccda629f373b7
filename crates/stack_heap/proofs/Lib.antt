pub mod UnlessLaws
mod HeldLaws
