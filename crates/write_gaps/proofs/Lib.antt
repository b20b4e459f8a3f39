pub mod Rows
pub mod Lows
