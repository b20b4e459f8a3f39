pub mod Rulings
pub mod Stored
pub mod OnTrees
pub mod Trees
pub mod Lists
