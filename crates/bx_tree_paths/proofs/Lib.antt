pub mod Comparing
pub mod Halving
pub mod Counting
pub mod Spans
pub mod Found
pub mod Rising
pub mod Numbered
pub mod BetweenTexts
