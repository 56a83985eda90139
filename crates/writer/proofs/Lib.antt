pub mod Widths
pub mod Turns
pub mod WholeHead
pub mod Order
