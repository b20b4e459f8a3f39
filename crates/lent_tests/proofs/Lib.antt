pub mod Shorts
pub mod Early
