pub mod Tables
pub mod Passing
pub mod Seeing
pub mod Looking
pub mod Judged
