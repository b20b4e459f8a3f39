pub mod Sums
pub mod Parts
pub mod Children
pub mod Blocks
pub mod Descendants
pub mod Tallies
pub mod Laying
pub mod OnePlaced
