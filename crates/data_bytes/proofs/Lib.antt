pub mod Places
pub mod Spellings
pub mod ValueLists
