pub mod RunSteps
pub mod Run
