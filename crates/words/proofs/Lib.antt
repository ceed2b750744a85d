pub mod Decimals
pub mod Hexes
pub mod Steps
pub mod Written
