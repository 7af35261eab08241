pub mod Flags
pub mod OverContracts
pub mod SumLaws
pub mod Adding
pub mod Going
pub mod Most
pub mod Padded
pub mod Claims
