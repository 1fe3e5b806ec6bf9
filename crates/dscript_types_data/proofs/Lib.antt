pub mod Rows
pub mod CodeOrders
pub mod Counting
pub mod Sets
pub mod Placing
pub mod Fitted
pub mod Few
