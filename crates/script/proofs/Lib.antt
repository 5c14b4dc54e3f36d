pub mod Fills
pub mod Folds
