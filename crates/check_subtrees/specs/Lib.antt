pub mod Steps
pub mod Strays
