pub mod Numbers
pub mod Objects
