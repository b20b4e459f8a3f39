pub mod Joins
pub mod Lowers
pub mod Joining
pub mod Copying
pub mod LowerCopying
pub mod Uniting
