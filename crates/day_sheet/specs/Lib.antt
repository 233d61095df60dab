pub mod Kept
pub mod Nearer
pub mod Shortlist
pub mod Nearness
