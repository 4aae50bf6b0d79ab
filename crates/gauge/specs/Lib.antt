pub mod Charges
pub mod Counts
