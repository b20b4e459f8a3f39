pub mod Marks
pub mod Buffers
pub mod Making
pub mod Joining
pub mod NextChild
