pub mod Stored
pub mod Objects
