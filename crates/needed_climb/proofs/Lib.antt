pub mod Sums
pub mod Marking
pub mod Climbs
