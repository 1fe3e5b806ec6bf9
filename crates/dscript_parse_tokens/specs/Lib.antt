pub mod Gives
pub mod Enclosed
pub mod Deriving
pub mod LoopInvariants
pub mod UnionInvariants
pub mod Endings
