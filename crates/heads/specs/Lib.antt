pub mod Tables
pub mod Heads
pub mod LoopSteps
pub mod Answers
