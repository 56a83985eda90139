pub mod Ways
pub mod ReadLaws
pub mod WholeLaws
pub mod SlotLaws
