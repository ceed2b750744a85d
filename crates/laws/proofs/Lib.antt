pub mod Sorted
pub mod Order
pub mod Fill
pub mod Inplace
pub mod Last
pub mod Search
pub mod Put
pub mod Same
