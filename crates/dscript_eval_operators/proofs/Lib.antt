pub mod Widths
pub mod PrefixSteps
pub mod AtomSteps
mod Examples
