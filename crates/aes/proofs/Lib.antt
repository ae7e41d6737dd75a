mod Addends
mod Expansion
mod Inverses
pub mod Products
mod Rounds
pub mod Xors
