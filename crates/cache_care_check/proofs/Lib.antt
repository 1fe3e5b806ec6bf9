pub mod Deciding
pub mod Told
mod Steps
mod Noted
mod FoundTexts
mod Described
mod Judged
pub mod NameParts
mod Surveyed
mod Listed
