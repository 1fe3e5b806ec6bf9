pub mod Commands
pub mod Given
pub mod Settings
pub mod Words
