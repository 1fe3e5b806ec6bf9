pub mod Findings
pub mod Known
pub mod Named
pub mod Describing
pub mod Judging
pub mod CareLists
