pub mod Planning
pub mod Counts
pub mod Repairing
pub mod Naming
pub mod Trimming
pub mod Trimmed
pub mod Digests
