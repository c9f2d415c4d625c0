pub mod Sizes
pub mod Cases
pub mod Sets
pub mod Laws
pub mod Texts
