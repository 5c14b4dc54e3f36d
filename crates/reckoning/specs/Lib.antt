pub mod Meaning
pub mod Counts
pub mod Weights
pub mod Examples
