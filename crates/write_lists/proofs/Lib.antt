pub mod Counted
pub mod Runs
pub mod Columns
