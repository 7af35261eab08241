pub mod Answered
pub mod Claims
pub mod Committee
pub mod code
