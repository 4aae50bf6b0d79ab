pub mod Cuts
pub mod Fields
pub mod Lines
pub mod Marks
pub mod Names
pub mod Opened
pub mod Rules
pub mod Values
