pub mod Placed
pub mod FilesAt
pub mod SetsOf
pub mod SameFiles
