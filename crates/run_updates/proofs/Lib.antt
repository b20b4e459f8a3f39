pub mod Stack
pub mod Entries
pub mod Popped
pub mod Uses
pub mod Step
