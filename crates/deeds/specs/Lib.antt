pub mod Deeds
pub mod Classes
