pub mod Answers
pub mod Onto
pub mod Places
