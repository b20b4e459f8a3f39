pub mod Adding
pub mod OneChild
pub mod Plans
pub mod Passing
