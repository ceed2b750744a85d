pub mod Numbers
pub mod Words
pub mod Hex
pub mod Paths
pub mod Values
