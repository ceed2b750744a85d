pub mod Stored
pub mod Fresh
pub mod Values
