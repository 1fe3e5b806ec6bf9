pub mod Joining
pub mod AmbientCalls
pub mod Outwards
pub mod Numbering
pub mod OneString
pub mod FirstValues
pub mod Examples
pub mod Placed
pub mod ShortestPrefixes
pub mod TableValues
pub mod FoldSteps
mod Longest
