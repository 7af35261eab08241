mod ListLaws
pub mod Claims
