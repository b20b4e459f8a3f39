pub mod Hanging
pub mod Storing
pub mod Running
