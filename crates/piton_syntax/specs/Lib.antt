-- What the crate promises: systems, the grammar of their text, its faults, and the printed text.
pub mod Systems
pub mod Operations
pub mod Limits
pub mod Grammar
pub mod Printed
pub mod PitonReading
pub mod Fits
pub mod Sizes
