pub mod Workers
pub mod Ended
pub mod Steps
pub mod Looking
