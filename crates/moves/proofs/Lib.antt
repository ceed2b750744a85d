pub mod Keys
pub mod Merged
