pub mod AllEdges
pub mod AllNodes
pub mod LayersOf
