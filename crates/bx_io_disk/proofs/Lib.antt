pub mod Events
pub mod Files
pub mod Listing
pub mod Locking
