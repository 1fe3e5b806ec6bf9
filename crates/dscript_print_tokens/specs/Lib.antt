pub mod Spellable
pub mod Writable
pub mod Sides
pub mod Spellings
pub mod Layout
