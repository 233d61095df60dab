pub mod Complete
pub mod Examples
pub mod Gathering
pub mod Listing
pub mod Nearest
pub mod Sheets
