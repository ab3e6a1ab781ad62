pub mod Striking
pub mod Law
pub mod Entering
pub mod Piles
