pub mod Views
pub mod Weight
pub mod Falls
pub mod Coded
pub mod Orders
pub mod Places
