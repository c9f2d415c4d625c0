pub mod Blunders
pub mod Example
pub mod Law
pub mod Members
pub mod Runs
pub mod Unopened
