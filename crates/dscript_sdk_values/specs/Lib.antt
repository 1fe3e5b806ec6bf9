pub mod Outcomes
pub mod Kinds
pub mod Objects
pub mod Arguments
pub mod Answers
pub mod PathTexts
