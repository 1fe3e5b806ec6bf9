pub mod Kinds
pub mod Invariants
