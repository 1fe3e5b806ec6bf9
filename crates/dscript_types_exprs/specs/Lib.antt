pub mod Parts
pub mod Calls
pub mod Walks
pub mod Statements
pub mod Bodies
