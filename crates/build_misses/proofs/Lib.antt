pub mod Fair
pub mod TheRest
pub mod Going
pub mod Decisions
