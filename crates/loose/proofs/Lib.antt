pub mod Scan
pub mod Order
pub mod Blocks
pub mod Judging
pub mod Standing
pub mod Bridge
