pub mod Keys
pub mod Partings
pub mod Assembly
pub mod Laws
pub mod Cases
