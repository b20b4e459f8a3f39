pub mod Pushed
pub mod Taken
