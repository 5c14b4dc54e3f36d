pub mod Cuts
pub mod FewLines
pub mod Spans
pub mod Counting
pub mod Places
pub mod Folding
mod Written
