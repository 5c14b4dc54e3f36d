pub mod Tokens
pub mod Answers
pub mod Examples
pub mod Laws
pub mod Stream
