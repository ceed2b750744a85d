pub mod Fields
pub mod View
