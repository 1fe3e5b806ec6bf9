pub mod Listed
pub mod Existing
pub mod Chains
pub mod SecondBuilds
