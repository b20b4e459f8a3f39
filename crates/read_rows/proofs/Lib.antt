pub mod Rows
pub mod Short
pub mod Quick
