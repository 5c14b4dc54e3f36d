pub mod Turns
pub mod Spelled
pub mod Machine
pub mod Descent
pub mod Enclosures
