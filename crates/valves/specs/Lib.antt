pub mod Book
pub mod Cases
pub mod Keeps
pub mod Laws
pub mod Mark
pub mod Orders
pub mod Valves
