pub mod ReadInRange
pub mod Bounds
pub mod ReadSteps
pub mod ReadKeeps
pub mod ReadIsSound
pub mod HeadLaws
