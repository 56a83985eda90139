pub mod Answers
pub mod Steps
pub mod Refusals
pub mod Bytes
pub mod Outcome
pub mod Runs
pub mod ForC
pub mod Looks
