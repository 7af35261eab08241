pub mod Orders
pub mod Risks
pub mod Stated
pub mod Apart
