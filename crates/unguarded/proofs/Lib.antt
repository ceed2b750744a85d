pub mod Renewing
pub mod Loading
pub mod Saving
