-- Internal: what only private functions and lemmas say.
pub mod Turns
pub mod PredefinedEffects
pub mod PredefinedSteps
pub mod Returning
pub mod Entering
pub mod Finishing
pub mod Within
pub mod Stepping
pub mod Stacking
