pub mod Gathers
pub mod Fill
pub mod Parents
pub mod Subtrees
pub mod Joins
pub mod Children
