pub mod Walks
pub mod Words
pub mod Tests
pub mod Pricings
pub mod Checks
pub mod Valuations
pub mod Sends
