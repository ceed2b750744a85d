pub mod Moved
pub mod Room
