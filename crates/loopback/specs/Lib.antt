pub mod MessageLaws
pub mod Loopbacks
