pub mod Rows
pub mod Signatures
