pub mod QuickMarks
pub mod QuickShows
pub mod QuickSteps
pub mod ImageMoments
pub mod StepExample
