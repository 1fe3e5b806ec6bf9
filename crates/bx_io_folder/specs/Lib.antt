pub mod NamedFiles
pub mod Order
pub mod Named
