pub mod Board
pub mod Claiming
pub mod Publishing
