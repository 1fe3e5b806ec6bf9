pub mod Joining
pub mod Globbing
pub mod Rows
