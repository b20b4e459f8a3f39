pub mod Ways
pub mod Made
pub mod Plans
