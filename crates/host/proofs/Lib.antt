pub mod Turns
pub mod Cases
pub mod Highest
pub mod Acceptance
pub mod Worked
