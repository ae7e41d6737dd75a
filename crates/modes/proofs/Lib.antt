pub mod Blocks
pub mod Readings
pub mod Streams
pub mod Chains
