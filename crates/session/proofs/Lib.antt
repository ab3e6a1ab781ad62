pub mod Stacks
pub mod Grants
pub mod Rows
pub mod Trails
pub mod Steps
pub mod Sweeps
