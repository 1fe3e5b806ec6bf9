pub mod Places
pub mod Folders
pub mod Answers
pub mod Stored
pub mod Packing
pub mod Steps
pub mod Unpacking
