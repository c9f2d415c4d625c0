pub mod Spans
pub mod Marked
pub mod Clients
pub mod Deliveries
pub mod Histories
pub mod Cases
pub mod Laws
