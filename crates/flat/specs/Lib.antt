pub mod FlatModel
pub mod Keeping
