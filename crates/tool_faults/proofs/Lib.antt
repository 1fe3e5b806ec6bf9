pub mod Exact
pub mod FirstPlaces
pub mod LinesFrom
pub mod WasRead
