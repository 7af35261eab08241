pub mod Questions
pub mod Noon
pub mod Demands
pub mod PairDemands
pub mod Turns
pub mod code
