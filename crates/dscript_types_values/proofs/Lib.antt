pub mod Among
pub mod Coding
pub mod KindForms
pub mod Joining
pub mod Fitting
pub mod Fielding
