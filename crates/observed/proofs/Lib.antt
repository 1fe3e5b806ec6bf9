pub mod OneSet
pub mod ReadTexts
