pub mod Programs
pub mod Uses
pub mod Faults
pub mod Commands
pub mod Readings
pub mod Proper
pub mod Laws
