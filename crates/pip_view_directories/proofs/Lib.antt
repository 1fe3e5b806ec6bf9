pub mod Rising
pub mod OfSeals
pub mod Between
pub mod AtPaths
