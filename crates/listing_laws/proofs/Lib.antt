pub mod Parts
pub mod Lengths
pub mod Fits
pub mod Answers
pub mod TextAnswers
pub mod Program
