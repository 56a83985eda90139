pub mod Back
pub mod Blocks
pub mod JobTicks
pub mod Links
pub mod Order
pub mod Repeat
pub mod Window
pub mod Windows
