pub mod Reasoned
pub mod MissSet
pub mod Going
