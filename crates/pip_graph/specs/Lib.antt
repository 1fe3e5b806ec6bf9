pub mod GraphText
pub mod Layers
