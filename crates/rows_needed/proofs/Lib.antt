pub mod Counts
pub mod RowEnds
pub mod Buckets
pub mod Filing
pub mod Stores
pub mod Walks
pub mod RowLoop
