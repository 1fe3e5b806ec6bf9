pub mod Refuses
pub mod Places
pub mod Reading
pub mod ReadFaults
