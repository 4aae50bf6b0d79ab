pub mod Chargers
pub mod Checks
pub mod Codes
pub mod Conditions
pub mod Histories
pub mod Laws
pub mod Rules
pub mod Timing
