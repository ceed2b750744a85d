pub mod Records
pub mod View
pub mod Rows
pub mod Columns
