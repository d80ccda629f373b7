pub mod Access
pub mod Moments
pub mod Pieces
pub mod Products
pub mod PieceRows
