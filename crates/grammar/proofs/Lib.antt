pub mod Spelling
pub mod Pending
pub mod Soundness
pub mod Completeness
pub mod Completion
pub mod Limits
