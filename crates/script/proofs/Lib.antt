pub mod Numerals
pub mod Cutting
