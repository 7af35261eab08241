pub mod Counts
pub mod Held
pub mod Kept
pub mod KeptClaims
