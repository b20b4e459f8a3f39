pub mod Tests
pub mod LinesRead
