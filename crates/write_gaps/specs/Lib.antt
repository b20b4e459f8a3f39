pub mod ListBetween
pub mod LowBytes
