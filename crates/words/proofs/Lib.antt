pub mod Looking
pub mod Saying
pub mod Steps
pub mod Whole
pub mod Counting
