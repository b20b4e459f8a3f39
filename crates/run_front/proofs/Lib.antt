pub mod Columns
pub mod Places
pub mod SameRows
pub mod Sweeps
