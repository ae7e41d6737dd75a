pub mod Going
pub mod Buffers
pub mod Playing
