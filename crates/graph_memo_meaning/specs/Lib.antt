pub mod Work
pub mod Contents
pub mod Honest
pub mod Usable
pub mod Compared
pub mod Saving
