pub mod Account
pub mod Lines
pub mod Numbers
pub mod Outcomes
pub mod Words
