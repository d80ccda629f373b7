pub mod QuickImage
pub mod QuickImplements
pub mod QuickExamples
