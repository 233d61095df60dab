pub mod Enough
pub mod Roots
pub mod Copies
pub mod Joins
pub mod Rows
pub mod Sixteens
pub mod Tallies
