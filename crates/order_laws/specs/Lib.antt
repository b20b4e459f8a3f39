pub mod Entries
pub mod Parents
pub mod Done
pub mod Subtrees
pub mod Stack
