pub mod Told
pub mod Roof
