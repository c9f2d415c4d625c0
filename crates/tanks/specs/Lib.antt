pub mod Cases
pub mod Farm
pub mod Keeps
pub mod Laws
pub mod Mark
pub mod Orders
pub mod Tanks
