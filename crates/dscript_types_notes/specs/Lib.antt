pub mod KnownNames
pub mod Names
pub mod Found
pub mod Means
