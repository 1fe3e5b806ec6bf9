pub mod Events
pub mod Telling
pub mod Answers
pub mod Files
