pub mod Begin
pub mod Held
