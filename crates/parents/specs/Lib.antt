pub mod Made
pub mod Counting
