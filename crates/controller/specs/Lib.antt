pub mod Sound
pub mod Sending
pub mod Agree
