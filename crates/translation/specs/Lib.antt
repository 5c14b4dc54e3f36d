pub mod Translation
pub mod Limits
pub mod Layout
