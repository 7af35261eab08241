-- The laws that the layers above cite, and a file for one function.
pub mod Determined
mod Downward
pub mod FractionLaws
pub mod HalfUp
pub mod Integers
pub mod Lists
pub mod SignedCalls
pub mod Totals
pub mod Table
pub mod Tests
pub mod UnitLaws
