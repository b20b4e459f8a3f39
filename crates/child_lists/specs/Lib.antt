pub mod Marks
pub mod Buffers
pub mod Joining
