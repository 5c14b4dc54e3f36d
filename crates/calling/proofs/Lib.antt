pub mod Frames
pub mod Answering
