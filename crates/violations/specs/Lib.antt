pub mod Leading
pub mod Classes
pub mod DoubleWrites
pub mod Verdicts
pub mod Producing
pub mod Slots
pub mod Least
