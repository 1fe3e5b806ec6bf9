pub mod BoundTree
pub mod ProgramData
pub mod Numbering
pub mod Views
pub mod Ambient
pub mod Workspaces
pub mod SpecFaults
