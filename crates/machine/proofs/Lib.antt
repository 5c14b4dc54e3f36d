pub mod Cells
pub mod Done
pub mod Endings
pub mod Progress
pub mod Chains
