pub mod Asked
pub mod Asking
pub mod Beside
pub mod Lent
pub mod Lined
pub mod Numbers
pub mod Positions
pub mod Tabled
