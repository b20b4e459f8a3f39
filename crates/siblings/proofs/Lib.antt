pub mod Placing
pub mod Works
pub mod Arranging
pub mod OneArranged
