pub mod Hanging
pub mod Listed
