pub mod Projects
pub mod Specifications
pub mod Refusals
pub mod FileFaults
pub mod Faults
pub mod StoreChanges
pub mod Graphs
