pub mod Slots
pub mod Sorted
pub mod Order
pub mod Search
