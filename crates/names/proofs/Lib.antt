pub mod Members
pub mod Resolving
pub mod Places
pub mod Sounding
pub mod Verdicts
