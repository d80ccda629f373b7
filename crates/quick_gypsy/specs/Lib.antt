pub mod Numbers
pub mod Layout
pub mod RowCode
pub mod Quick
pub mod QuickRuns
pub mod InLine
pub mod InLineRuns
