pub mod Answers
pub mod Findings
pub mod Written
pub mod Heads
