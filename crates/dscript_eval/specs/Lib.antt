pub mod CallbackArgs
pub mod Bodies
pub mod Tops
pub mod TurnSteps
pub mod AtOnce
