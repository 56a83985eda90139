pub mod PlaceLaws
pub mod Places
