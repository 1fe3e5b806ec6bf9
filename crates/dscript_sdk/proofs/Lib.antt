pub mod Unchanged
pub mod Examples
pub mod FoundByPath
