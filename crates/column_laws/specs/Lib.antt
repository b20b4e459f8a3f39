pub mod Tested
pub mod Chains
