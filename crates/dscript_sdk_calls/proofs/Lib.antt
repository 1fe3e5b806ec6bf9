pub mod Patterns
pub mod Together
pub mod DirectlyIn
pub mod Examples
