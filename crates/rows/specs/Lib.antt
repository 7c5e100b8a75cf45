pub mod Keys
pub mod Kinds
pub mod Rows
pub mod Laws
pub mod Views
