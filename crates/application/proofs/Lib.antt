pub mod Each
pub mod Folds
pub mod Passed
