pub mod Messages
pub mod Behind
pub mod Logs
pub mod Signing
pub mod Taking
pub mod Sessions
pub mod Numbers
