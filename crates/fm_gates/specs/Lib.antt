pub mod Gates
pub mod Netlist
