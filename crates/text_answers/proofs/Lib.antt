pub mod TextLines
pub mod Text
pub mod TextJob
pub mod Printed
pub mod Program
