pub mod Options
mod ByNumber
pub mod Sketch
pub mod Global
pub mod Tables
pub mod Full
pub mod Checks
pub mod Backers
pub mod Local
pub mod Flow
pub mod Calls
pub mod Changes
pub mod Whole
pub mod OneLog
pub mod Example
pub mod Blunders
