pub mod Held
pub mod Sorting
