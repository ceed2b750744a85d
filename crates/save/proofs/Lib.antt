pub mod Rows
pub mod Saved
