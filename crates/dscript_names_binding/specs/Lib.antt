pub mod Walk
pub mod Binding
pub mod Walked
pub mod Turned
pub mod Opened
pub mod Scenes
pub mod Declares
pub mod Seen
