pub mod FirstClash
pub mod Walking
pub mod LeastUnseen
pub mod Produced
pub mod Producers
