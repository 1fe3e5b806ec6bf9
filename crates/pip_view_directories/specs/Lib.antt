pub mod Near
pub mod Ranges
pub mod Around
