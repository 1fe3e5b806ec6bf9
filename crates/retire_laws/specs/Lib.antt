pub mod ComparedList
pub mod Series
pub mod SecondBuild
