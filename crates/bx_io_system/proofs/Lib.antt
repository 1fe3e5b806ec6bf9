pub mod Left
pub mod Locking
