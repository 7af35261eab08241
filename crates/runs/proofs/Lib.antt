mod PlaceLaws
pub mod RunLaws
pub mod Claims
