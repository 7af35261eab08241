pub mod Sorting
pub mod Order
pub mod Written
pub mod Claims
pub mod code
