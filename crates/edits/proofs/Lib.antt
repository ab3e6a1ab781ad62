pub mod Moves
pub mod Undoing
pub mod Journals
pub mod Ascending
pub mod Renaming
pub mod Swaps
