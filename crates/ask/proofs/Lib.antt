pub mod Verdicts
pub mod Answers
pub mod Determined
