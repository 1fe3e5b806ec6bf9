pub mod Outputs
pub mod DoubleProducer
pub mod Overlap
pub mod OutsideOut
pub mod Sharing
pub mod Gathered
pub mod Claims
pub mod Firsts
