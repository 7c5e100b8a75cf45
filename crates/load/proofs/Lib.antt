pub mod Tables
pub mod Freshness
pub mod Roots
