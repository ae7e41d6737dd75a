pub mod Compares
pub mod Clears
pub mod Writes
