pub mod Reports
pub mod Texts
pub mod Sessions
pub mod Scripts
pub mod Examples
