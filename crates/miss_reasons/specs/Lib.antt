pub mod Reasons
pub mod Finding
