pub mod Ties
pub mod Marked
pub mod Families
pub mod Walked
pub mod Lying
pub mod Peaks
