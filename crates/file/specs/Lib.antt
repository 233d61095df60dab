pub mod Encode
pub mod Pen
pub mod WriteOut
