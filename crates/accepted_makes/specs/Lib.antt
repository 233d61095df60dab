pub mod Joins
pub mod Tallies
