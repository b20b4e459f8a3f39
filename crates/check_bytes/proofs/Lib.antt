pub mod Ways
pub mod AtStart
pub mod Rules
