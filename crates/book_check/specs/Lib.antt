pub mod Below
pub mod Targets
pub mod Names
pub mod Sound
pub mod Checked
pub mod Accepted
pub mod Tree
pub mod Marks
