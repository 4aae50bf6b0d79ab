pub mod Drafts
pub mod Tallies
pub mod Watched
