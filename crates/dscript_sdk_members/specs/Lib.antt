pub mod Names
pub mod Functions
pub mod Gives
pub mod FirstPlaces
pub mod Periods
pub mod TextMembers
pub mod ListMembers
pub mod PathMembers
