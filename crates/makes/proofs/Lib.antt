pub mod Joins
pub mod Fits
pub mod Worked
pub mod Climbing
