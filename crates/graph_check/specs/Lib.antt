pub mod NoSuchSource
pub mod Twin
pub mod Described
pub mod Limit
pub mod Rules
pub mod Descriptions
pub mod ProcessOrder
pub mod Orders
