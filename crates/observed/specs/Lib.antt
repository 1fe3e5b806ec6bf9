pub mod Asks
pub mod Orders
pub mod PathSets
pub mod Texts
