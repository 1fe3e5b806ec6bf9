pub mod ProjectFaults
pub mod ProjectFiles
pub mod OneProgram
pub mod OnePlan
pub mod SomePlan
pub mod Passes
pub mod TypedTrees
pub mod GraphPlans
