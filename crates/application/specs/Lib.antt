pub mod Codes
pub mod Payload
pub mod Texts
