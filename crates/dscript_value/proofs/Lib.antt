pub mod Deep
pub mod Deeper
pub mod Finding
pub mod Getting
pub mod Inside
pub mod Putting
pub mod AtomByAtom
