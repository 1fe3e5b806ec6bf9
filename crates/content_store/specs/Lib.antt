pub mod Contents
pub mod HeldEntries
