pub mod SameFiles
pub mod SameNames
pub mod Found
pub mod Kept
