pub mod Lists
pub mod Claims
