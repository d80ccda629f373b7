pub mod WireNames
pub mod VerilogText
