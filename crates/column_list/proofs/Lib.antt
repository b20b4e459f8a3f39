pub mod Hung
pub mod Gathering
pub mod Owns
pub mod Begins
