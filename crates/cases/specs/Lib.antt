pub mod Scene
pub mod Basics
pub mod Ordering
pub mod Changing
pub mod Catching
pub mod Walk
pub mod Cases
