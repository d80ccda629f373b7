pub mod WindowLaws
pub mod ExitLaws
pub mod MainLaws
pub mod SpendLaws
pub mod ExampleLaws
