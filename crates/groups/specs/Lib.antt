pub mod Fits
pub mod InArray
