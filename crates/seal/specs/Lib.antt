pub mod Records
pub mod Roll
