pub mod OneThread
pub mod Views
pub mod Starting
pub mod Shared
pub mod Outputs
pub mod Keeping
pub mod Lines
pub mod Least
