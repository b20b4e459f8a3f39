pub mod Keys
pub mod Turns
