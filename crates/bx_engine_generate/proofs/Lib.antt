pub mod Lines
pub mod NamedPaths
