pub mod Messages
pub mod Seals
pub mod Opens
