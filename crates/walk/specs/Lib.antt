pub mod Tasks
pub mod Children
pub mod Levels
pub mod Nesting
