pub mod Statements
pub mod Apart
