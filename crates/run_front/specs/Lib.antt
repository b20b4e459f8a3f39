pub mod Column
pub mod Search
