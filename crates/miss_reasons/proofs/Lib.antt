pub mod Excluded
pub mod Reading
pub mod SameLines
pub mod Answering
pub mod Asked
