pub mod BitSets
pub mod WalksBack
pub mod Found
pub mod EdgesBack
pub mod Planning
pub mod PathNumbers
pub mod OutputsFound
pub mod Listed
