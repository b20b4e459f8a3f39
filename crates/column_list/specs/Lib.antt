pub mod Hung
pub mod Stored
