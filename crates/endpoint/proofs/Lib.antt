pub mod Emptying
pub mod Keeping
pub mod Following
