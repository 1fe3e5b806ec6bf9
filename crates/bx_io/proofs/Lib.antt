pub mod Pieces
pub mod Mapped
pub mod Planned
pub mod Changes
pub mod Examples
