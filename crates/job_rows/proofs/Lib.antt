pub mod Reading
pub mod Started
