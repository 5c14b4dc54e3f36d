pub mod Arguments
pub mod Listings
pub mod Commands
