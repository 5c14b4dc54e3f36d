pub mod Lexemes
pub mod Words
pub mod Parsing
pub mod Limits
pub mod Laws
pub mod Examples
