mod Basics
mod Ordering
mod Changing
mod Catching
mod Walk
