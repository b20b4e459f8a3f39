pub mod Analysed
pub mod Steps
