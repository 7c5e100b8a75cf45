pub mod Glyphs
pub mod Meaning
pub mod Halving
