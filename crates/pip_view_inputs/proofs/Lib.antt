pub mod InOrder
pub mod TakenFiles
pub mod KeptInputs
pub mod PlacedNumbers
