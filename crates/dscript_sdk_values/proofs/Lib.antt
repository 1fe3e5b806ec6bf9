pub mod Views
pub mod Examples
