pub mod Nodes
pub mod Looks
pub mod Runs
