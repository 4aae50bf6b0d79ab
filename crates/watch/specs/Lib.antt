pub mod Histories
pub mod Levels
pub mod Rows
pub mod Rule
