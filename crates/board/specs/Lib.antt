pub mod Amount
pub mod Meaning
pub mod Places
pub mod Trimmed
