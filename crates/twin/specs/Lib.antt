pub mod Tree
pub mod Twin
pub mod Good
