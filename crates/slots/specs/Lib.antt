pub mod High
pub mod Topped
