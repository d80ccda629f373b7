pub mod ScriptLaws
pub mod WordLaws
pub mod UntilLaws
