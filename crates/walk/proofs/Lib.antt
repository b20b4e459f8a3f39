pub mod Levels
pub mod Runs
pub mod Down
pub mod Later
pub mod OneKept
pub mod Nesting
