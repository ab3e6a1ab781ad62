pub mod Commands
pub mod Journals
pub mod Replace
