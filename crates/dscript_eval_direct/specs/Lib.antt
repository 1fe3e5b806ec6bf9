pub mod Now
