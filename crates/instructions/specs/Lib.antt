pub mod Words
pub mod Stops
pub mod Faults
