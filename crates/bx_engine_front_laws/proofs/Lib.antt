pub mod Placed
pub mod CallsInFull
