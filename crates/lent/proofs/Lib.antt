pub mod Sixes
pub mod Alike
