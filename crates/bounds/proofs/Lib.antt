pub mod Filled
pub mod Fresh
pub mod Rows
