pub mod Newly
pub mod Marked
pub mod Counting
pub mod Judging
