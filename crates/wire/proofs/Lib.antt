pub mod Ids
pub mod Fronts
pub mod Readings
pub mod Hexadecimal
