pub mod Front
pub mod Numbered
pub mod Flats
pub mod Buckets
pub mod Tables
pub mod Whole
