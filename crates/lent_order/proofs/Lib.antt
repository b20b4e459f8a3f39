pub mod Orderings
