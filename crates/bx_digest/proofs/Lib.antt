pub mod HexTexts
pub mod HashesAreDigests
