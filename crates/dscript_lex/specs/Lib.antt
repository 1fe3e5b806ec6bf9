pub mod Bytes
pub mod Punctuators
pub mod Lexemes
pub mod Tokens
pub mod Scanning
