pub mod Format1
pub mod Arrays
