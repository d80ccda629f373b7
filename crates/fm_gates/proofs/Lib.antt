pub mod BitLaws
pub mod GateLaws
pub mod WordLaws
pub mod NetLaws
