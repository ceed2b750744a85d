pub mod Judging
pub mod Placing
pub mod Kept
pub mod Unread
