pub mod Parents
pub mod Blocks
pub mod Laid
