pub mod Lengths
pub mod Bounded
pub mod Called
