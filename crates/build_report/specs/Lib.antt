pub mod Names
pub mod Reports
pub mod Refusals
pub mod Notes
