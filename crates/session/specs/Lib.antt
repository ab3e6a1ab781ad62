pub mod Copying
pub mod Trail
pub mod Stack
pub mod Meaning
pub mod Tokens
pub mod Sweeping
pub mod Calls
