pub mod Held
pub mod Inserting
