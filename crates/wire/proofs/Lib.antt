pub mod Heads
pub mod Places
pub mod Puts
pub mod Numbers
pub mod Trips
pub mod Exact
pub mod KindBytes
