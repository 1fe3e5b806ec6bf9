pub mod NameTexts
pub mod HeldEntries
pub mod HeldContents
