pub mod SomeMeaning
mod Captured
mod Numbered
mod NumberedTrees
pub mod NumberedPrograms
mod Examples
pub mod Found
pub mod Listed
pub mod SeenNames
pub mod Distinct
pub mod Collected
pub mod Owning
pub mod Duplicated
pub mod Resolved
mod Steps
mod Walks
mod Takes
mod TakesTrees
mod TakesFiles
mod WalksFiles
mod Declared
mod Bounded
mod Programs
mod Bundled
