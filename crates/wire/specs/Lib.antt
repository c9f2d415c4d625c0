pub mod Bytes
pub mod Kinds
pub mod Values
pub mod Frames
pub mod Laws
pub mod Texts
