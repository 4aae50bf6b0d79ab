pub mod Asked
pub mod Counts
pub mod Refusals
pub mod Text
