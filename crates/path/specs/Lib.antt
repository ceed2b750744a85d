pub mod Address
pub mod Bytes
pub mod Packed
pub mod Numbers
pub mod View
