pub mod Jobs
pub mod Narrow
pub mod KeptJobs
pub mod Sizes
