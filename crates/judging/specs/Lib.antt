pub mod Claims
pub mod Judged
pub mod code
