pub mod FoundLocals
pub mod FullCalls
