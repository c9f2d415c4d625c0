pub mod Account
pub mod Ballots
pub mod Numbers
