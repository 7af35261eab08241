pub mod Fractions
pub mod Iff
pub mod Largest
pub mod Lists
pub mod Rounding
pub mod Signed
pub mod Units
