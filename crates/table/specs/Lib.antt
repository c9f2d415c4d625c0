pub mod Ballots
pub mod Places
pub mod Window
