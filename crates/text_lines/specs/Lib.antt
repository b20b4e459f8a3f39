pub mod Narrowed
pub mod Lines
