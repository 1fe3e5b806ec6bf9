pub mod InputFiles
pub mod Sees
pub mod Seen
pub mod Gathered
pub mod Agreement
pub mod Taken
pub mod NamesBelow
