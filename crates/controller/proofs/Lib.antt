pub mod Kept
pub mod Passes
pub mod Posts
pub mod Flows
pub mod Ends
pub mod Votings
pub mod Tells
pub mod Chosen
