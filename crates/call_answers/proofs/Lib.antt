pub mod CallTests
pub mod Call
