pub mod Lists
pub mod Answering
pub mod Halves
