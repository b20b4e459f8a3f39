pub mod Marks
pub mod Pops
pub mod Places
