pub mod Rising
pub mod Same
pub mod Turns
pub mod Seen
pub mod History
pub mod Serving
pub mod Joining
