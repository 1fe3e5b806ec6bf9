pub mod Digests
pub mod Same
pub mod Found
pub mod Puts
pub mod Added
pub mod Again
pub mod Stays
pub mod FilesFit
