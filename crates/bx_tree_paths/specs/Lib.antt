pub mod Searches
pub mod Spans
pub mod Steps
pub mod Tables
