pub mod BigEndian
pub mod Scalars
pub mod Values
