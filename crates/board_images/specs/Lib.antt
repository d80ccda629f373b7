pub mod OnBoard
