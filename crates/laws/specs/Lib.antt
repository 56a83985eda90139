pub mod Repeat
pub mod Blocks
pub mod Window
