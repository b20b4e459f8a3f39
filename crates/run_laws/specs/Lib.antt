pub mod Runs
pub mod Follows
