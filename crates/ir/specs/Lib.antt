pub mod Operations
pub mod Instructions
pub mod Values
pub mod Reports
pub mod Making
