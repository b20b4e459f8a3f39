pub mod Passed
pub mod Same
pub mod Parts
