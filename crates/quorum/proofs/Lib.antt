pub mod Allowed
pub mod Counting
