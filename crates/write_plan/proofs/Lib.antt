pub mod Steps
pub mod Planned
