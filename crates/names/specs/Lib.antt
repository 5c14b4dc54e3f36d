pub mod Questions
pub mod Examples
pub mod Laws
