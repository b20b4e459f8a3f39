pub mod Sums
pub mod Row
