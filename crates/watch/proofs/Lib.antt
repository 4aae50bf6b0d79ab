pub mod Longest
mod Telling
