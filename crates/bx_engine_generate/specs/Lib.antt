pub mod Generated
