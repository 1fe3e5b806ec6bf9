pub mod States
pub mod Table
pub mod Legal
pub mod Sound
pub mod Laws
pub mod Sets
pub mod Indexes
