pub mod Views
pub mod OperationRows
