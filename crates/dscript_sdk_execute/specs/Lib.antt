pub mod Sets
pub mod ExecuteObject
pub mod Views
pub mod Execute
