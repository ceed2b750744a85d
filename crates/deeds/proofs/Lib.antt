pub mod Allowed
pub mod Pasting
pub mod Looked
pub mod Left
pub mod Rows
pub mod Numbers
pub mod Parts
