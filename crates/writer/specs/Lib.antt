pub mod Format
pub mod FormatLaws
pub mod Writing
pub mod Answers
pub mod Wrote
pub mod Lent
