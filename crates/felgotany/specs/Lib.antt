pub mod Roof
pub mod code
