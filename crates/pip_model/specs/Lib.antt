pub mod Walks
pub mod Edges
pub mod Bits
pub mod Plans
pub mod Inputs
pub mod Rows
pub mod Outputs
pub mod Listings
