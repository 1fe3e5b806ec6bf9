pub mod Loops
pub mod Closing
pub mod NameLists
pub mod Refusals
pub mod Steps
pub mod UnionLoops
