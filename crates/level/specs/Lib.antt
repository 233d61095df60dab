pub mod Level
pub mod Range
pub mod Read
pub mod Write
