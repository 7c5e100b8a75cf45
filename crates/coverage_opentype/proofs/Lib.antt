pub mod Reading
pub mod Runs
pub mod Writing
pub mod Breaks
