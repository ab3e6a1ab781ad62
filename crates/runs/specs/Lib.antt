pub mod Runs
pub mod Prices
pub mod Form
pub mod Answers
pub mod Walks
pub mod Scratch
