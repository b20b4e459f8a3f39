pub mod Buckets
pub mod Walk
