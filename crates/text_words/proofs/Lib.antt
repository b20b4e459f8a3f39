pub mod Scan
pub mod Numbers
pub mod Told
