pub mod Artifacts
pub mod Fields
pub mod Sets
pub mod Searches
pub mod Names
pub mod Sharing
pub mod Examples
