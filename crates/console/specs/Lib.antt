pub mod Signed
pub mod Lines
