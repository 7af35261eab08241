pub mod Bytes
pub mod Layout
pub mod Ranges
pub mod Within
