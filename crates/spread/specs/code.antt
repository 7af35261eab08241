pub mod Book
pub mod Cells
pub mod Lent
pub mod Passing
pub mod Pools
pub mod Step
