pub mod Tree
pub mod Resolved
pub mod Scope
pub mod Limits
pub mod Scoping
pub mod Reading
pub mod Stopping
pub mod Readings
