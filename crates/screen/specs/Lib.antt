pub mod Claims
pub mod Screen
pub mod code
