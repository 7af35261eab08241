pub mod Claims
pub mod Runs
