pub mod OneField
pub mod Fields
pub mod Readings
pub mod PlanBytes
pub mod PlanSteps
pub mod PlanTests
pub mod Check
