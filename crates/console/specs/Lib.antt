pub mod Limit
pub mod Command
pub mod State
pub mod Say
