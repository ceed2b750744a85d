pub mod Saved
pub mod Forty
