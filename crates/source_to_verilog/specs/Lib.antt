pub mod SourceToVerilog
