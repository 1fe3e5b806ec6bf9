pub mod Answers
pub mod Seals
pub mod Selectors
pub mod Entries
pub mod PathsTexts
pub mod Found
pub mod StoreNames
pub mod StoredForms
