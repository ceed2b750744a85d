pub mod Several
pub mod Objects
pub mod Totals
pub mod Clipboards
pub mod Looked
