pub mod Steps
pub mod Moves
pub mod Closing
pub mod Listed
pub mod Declaring
pub mod Seen
