pub mod Whole
pub mod Cached
