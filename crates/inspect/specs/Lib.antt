pub mod Frame
pub mod Account
