pub mod Ranges
pub mod Numbers
