pub mod Tools
pub mod Asks
pub mod PathTexts
pub mod StrongTexts
pub mod Runs
pub mod Stores
