pub mod Ways
pub mod Handed
