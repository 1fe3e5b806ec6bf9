pub mod Twins
pub mod Answering
pub mod Deciding
pub mod Verdicts
pub mod Examples
pub mod Lists
