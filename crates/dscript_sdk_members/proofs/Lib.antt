pub mod Examples
pub mod AllMembers
pub mod PeriodSteps
pub mod FindingSteps
pub mod PlaceLemmas
pub mod LastAtoms
pub mod JoinedPaths
