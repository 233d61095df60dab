pub mod Back
pub mod Bytes
pub mod Lengths
pub mod Outcomes
pub mod Pens
pub mod Placing
pub mod Records
pub mod Samples
