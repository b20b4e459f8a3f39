pub mod Matches
pub mod Asked
