pub mod Determined
pub mod Lent
pub mod Notes
pub mod Pair
pub mod Passing
pub mod Rates
pub mod Standing
pub mod Surveyed
