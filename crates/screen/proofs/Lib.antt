pub mod Order
pub mod FoundLaws
