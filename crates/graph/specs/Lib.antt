pub mod Memory
pub mod Filling
pub mod Holding
