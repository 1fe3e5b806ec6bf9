pub mod StepsOfTexts
pub mod RowsMatch
pub mod LastAtoms
pub mod Ancestors
pub mod Patterns
