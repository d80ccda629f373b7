pub mod ImageRules
