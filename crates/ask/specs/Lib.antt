pub mod Asked
pub mod Verdict
