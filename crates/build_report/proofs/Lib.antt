pub mod PipLines
pub mod OneNotes
