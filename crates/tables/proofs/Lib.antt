pub mod Rows
pub mod Compare
pub mod Asked
pub mod Parts
pub mod Tables
pub mod Places
pub mod Together
