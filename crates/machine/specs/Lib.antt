pub mod Instructions
pub mod Endings
pub mod Seen
pub mod Steps
pub mod Runs
