pub mod Findings
pub mod Matching
pub mod Tables
pub mod Codes
pub mod Views
