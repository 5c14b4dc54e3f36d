pub mod Examples
pub mod Agreement
