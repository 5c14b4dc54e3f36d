pub mod Pieces
pub mod Numerals
pub mod Caps
pub mod Conversions
pub mod Lines
