pub mod Outcome
pub mod Input
pub mod Rows
