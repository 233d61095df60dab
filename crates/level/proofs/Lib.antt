pub mod Cases
pub mod Reading
pub mod Showing
pub mod Writing
