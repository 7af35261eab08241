mod Comparing
mod Walking
mod Beside
pub mod Claims
