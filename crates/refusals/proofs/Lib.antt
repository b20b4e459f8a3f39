pub mod Numbered
pub mod Passed
