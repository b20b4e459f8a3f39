pub mod Chains
pub mod Columns
pub mod Families
pub mod Testing
