pub mod SealTexts
pub mod FormTexts
