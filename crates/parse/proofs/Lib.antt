pub mod Digits
pub mod Readings
pub mod Frame
pub mod Values
pub mod Cases
pub mod Views
pub mod Zeros
