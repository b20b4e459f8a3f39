pub mod Entries
pub mod OneStep
pub mod Stacks
pub mod BySteps
