pub mod Seams
pub mod Instructions
pub mod Frames
pub mod Agreement
pub mod Loading
pub mod Theorem
pub mod Encodings
