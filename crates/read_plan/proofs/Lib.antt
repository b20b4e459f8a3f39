pub mod Steps
pub mod Lists
pub mod Wholes
