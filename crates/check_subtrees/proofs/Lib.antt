pub mod Counts
pub mod Windows
pub mod Earliest
pub mod Judged
pub mod Strays
pub mod Placing
pub mod Whole
