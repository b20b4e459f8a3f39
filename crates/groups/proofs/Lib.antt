pub mod Written
pub mod LittleArray
