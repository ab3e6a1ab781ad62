pub mod Rules
pub mod Trials
pub mod Laws
pub mod Changes
