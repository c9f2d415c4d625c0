pub mod Backing
pub mod Entering
pub mod Changing
