pub mod Telling
pub mod Files
pub mod Listing
pub mod Locking
pub mod Clearing
pub mod Places
