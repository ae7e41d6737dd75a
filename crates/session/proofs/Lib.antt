pub mod Keeping
pub mod Deciding
