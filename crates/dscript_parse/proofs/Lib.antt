pub mod TokenCount
pub mod WholeFiles
pub mod ItemLoop
pub mod OneReading
pub mod SomeReading
mod PlaceExamples
