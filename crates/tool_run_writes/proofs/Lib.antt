pub mod NextAtoms
pub mod Found
pub mod PutInOrder
pub mod DirectorySets
pub mod Bounds
pub mod Unnested
