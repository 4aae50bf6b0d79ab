pub mod Dump
pub mod Layout
