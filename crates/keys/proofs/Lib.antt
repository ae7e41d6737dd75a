pub mod Views
pub mod Keeping
pub mod Deciding
pub mod Held
