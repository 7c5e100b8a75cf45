pub mod Order
pub mod Laws
pub mod Places
mod Slices
