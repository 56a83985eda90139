pub mod ByteLoops
pub mod Tags
pub mod RowLaws
pub mod LookLaws
pub mod StepFacts
pub mod StateBytes
