pub mod Spans
pub mod Containing
pub mod Moves
pub mod Boxes
pub mod Arounds
