pub mod Exactly
pub mod Written
